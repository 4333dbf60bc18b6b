pub mod Balance
pub mod Bytes
pub mod Generate
pub mod Pack
pub mod inner
pub mod laws
