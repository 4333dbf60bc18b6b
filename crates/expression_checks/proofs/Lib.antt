pub mod DegreesLoops
