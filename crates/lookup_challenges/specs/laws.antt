pub mod Prefixes
pub mod Cases
