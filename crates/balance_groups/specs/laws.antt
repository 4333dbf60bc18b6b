pub mod Groups
pub mod Visits
pub mod Lowest
pub mod Ranges
