pub mod LookupStarts
pub mod Requires
