pub mod Prefixes
pub mod inner
pub mod laws
