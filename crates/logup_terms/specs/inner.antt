pub mod Constraint
pub mod ConstraintRow
