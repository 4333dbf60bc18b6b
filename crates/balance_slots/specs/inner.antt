pub mod Work
pub mod Hash
pub mod Chain
