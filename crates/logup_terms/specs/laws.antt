pub mod Sums
pub mod Same
