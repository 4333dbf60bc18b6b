pub mod LookupLists
pub mod LookupListsRequires
pub mod Columns
pub mod ColumnsRequires
pub mod Layout
