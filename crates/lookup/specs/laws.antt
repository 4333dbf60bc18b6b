pub mod Buses
pub mod Sizes
pub mod Tested
