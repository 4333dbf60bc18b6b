pub mod Ring
pub mod Extension
