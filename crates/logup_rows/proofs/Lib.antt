pub mod TermsLoops
pub mod RowLoops
pub mod SumLoops
pub mod FillLoops
pub mod BlockLoops
pub mod WriteRowLoops
pub mod PairLoops
pub mod TraceLoops
