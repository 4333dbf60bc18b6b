pub mod Answered
pub mod Parts
