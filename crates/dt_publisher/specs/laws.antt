-- What holds of a seat's own writes, for those who keep facts of them.

pub mod OwnWrites
