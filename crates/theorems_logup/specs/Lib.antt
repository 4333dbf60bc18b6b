pub mod Inverse
pub mod Distinct
pub mod Sums
pub mod Polynomial
pub mod Tables
pub mod Sets
pub mod Error
pub mod inner
