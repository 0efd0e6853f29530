-- What those need who keep a draft beside its consumer.

pub mod Applying
