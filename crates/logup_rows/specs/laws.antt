pub mod Lengths
pub mod Terms
pub mod Sums
pub mod Unnamed
