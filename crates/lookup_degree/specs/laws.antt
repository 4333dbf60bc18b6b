pub mod Degree
pub mod Formed
pub mod ConstraintDegree
pub mod Rising
pub mod Greatest
