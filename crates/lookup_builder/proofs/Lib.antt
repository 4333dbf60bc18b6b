pub mod Answers
pub mod Built
pub mod Finds
pub mod Sizes
pub mod laws
