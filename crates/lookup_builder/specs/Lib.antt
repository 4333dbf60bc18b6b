pub mod Building
pub mod FromInteractions
pub mod BuiltWeights
pub mod inner
