pub mod Nets
pub mod Add
pub mod GroupRefusal
pub mod Room
pub mod Last
pub mod Plain
pub mod Chained
