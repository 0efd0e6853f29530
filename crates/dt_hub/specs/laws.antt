-- What holds of the types, for those who use them: what may be shared by threads. Lowest first.

pub mod CrossingConsumers
pub mod CrossingSeats
pub mod Crossing
