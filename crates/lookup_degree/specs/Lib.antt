pub mod Sums
pub mod Degree
pub mod Formed
pub mod ConstraintDegree
pub mod inner
pub mod laws
