pub mod ByNumber
pub mod Visits
pub mod Lowest
pub mod Ranges
