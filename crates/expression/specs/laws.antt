pub mod Below
pub mod Values
pub mod Window
pub mod Degree
pub mod Tested
pub mod Refusal
pub mod Cases
