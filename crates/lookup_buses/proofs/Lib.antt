pub mod Loops
pub mod Finds
pub mod Fits
