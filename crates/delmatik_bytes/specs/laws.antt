pub mod Balance
pub mod Generate
pub mod Pack
