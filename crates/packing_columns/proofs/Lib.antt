pub mod LookupListLoops
pub mod ColumnsLoops
pub mod PlanLoops
pub mod LayoutLoops
pub mod Refusals
