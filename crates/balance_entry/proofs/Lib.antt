pub mod DebugUtilLoops
