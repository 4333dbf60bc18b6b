pub mod AccumulateLoops
pub mod CheckLoops
pub mod TestsLoops
