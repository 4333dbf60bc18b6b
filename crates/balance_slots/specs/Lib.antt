pub mod Decimal
pub mod Slots
pub mod Nets
pub mod Workspace
pub mod GroupRefusal
pub mod inner
