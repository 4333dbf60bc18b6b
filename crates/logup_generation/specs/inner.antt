pub mod Refusals
pub mod Outcome
