pub mod Terminals
pub mod Height
pub mod HeightSum
pub mod Cases
