pub mod Room
pub mod Wire
pub mod inner
pub mod laws
