pub mod EvaluateLoops
