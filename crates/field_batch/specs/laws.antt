pub mod Dot
pub mod Joined
pub mod Quotients
