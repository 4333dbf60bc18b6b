pub mod Tables
pub mod Groups
pub mod Entries
pub mod Refusals
pub mod Balance
pub mod Passes
pub mod Members
pub mod inner
