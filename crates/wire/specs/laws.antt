pub mod Cases
pub mod Room
pub mod Trip
