pub mod Terms
pub mod Sums
pub mod Progress
