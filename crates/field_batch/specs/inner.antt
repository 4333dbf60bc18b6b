pub mod Dot
pub mod Quotients
