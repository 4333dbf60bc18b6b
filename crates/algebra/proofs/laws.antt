pub mod Solve
pub mod Quadratic
pub mod Extension
pub mod Quartic
pub mod Remainder
pub mod Primality
pub mod Fermat
pub mod Power
