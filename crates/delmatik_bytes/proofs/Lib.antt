pub mod Outcomes
pub mod Rooms
