pub mod Refusals
pub mod laws
pub mod inner
