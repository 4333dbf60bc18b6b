pub mod DivisionLoops
