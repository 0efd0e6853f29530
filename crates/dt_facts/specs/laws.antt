-- What holds of the lists that only grow, for those who keep facts of them. Lowest first.

pub mod Beginnings
pub mod Lives
pub mod Items
