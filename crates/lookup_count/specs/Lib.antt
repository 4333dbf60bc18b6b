pub mod Count
pub mod laws
