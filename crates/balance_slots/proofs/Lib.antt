pub mod DecimalLoops
pub mod SlotsLoops
pub mod GroupRefusalLoops
pub mod ChainsLoops
pub mod laws
