pub mod OneBus
pub mod Sums
pub mod Balance
