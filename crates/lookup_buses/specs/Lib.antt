pub mod Order
pub mod Widths
pub mod CheckBusWidths
pub mod inner
pub mod laws
