pub mod TermsLoops
pub mod EvalRowLoops
pub mod EvalRowsLoops
