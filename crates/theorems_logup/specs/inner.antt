pub mod Distinct
pub mod Products
