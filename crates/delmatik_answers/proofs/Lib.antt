pub mod Tested
pub mod Untouched
