pub mod Testing
pub mod Finishing
pub mod Reading
