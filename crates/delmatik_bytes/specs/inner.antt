pub mod Sized
pub mod Words
