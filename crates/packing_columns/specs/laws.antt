pub mod Numbers
pub mod Starts
pub mod Planned
pub mod Laid
