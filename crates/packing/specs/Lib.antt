pub mod Packing
pub mod Written
pub mod Keeps
pub mod PackSameBus
