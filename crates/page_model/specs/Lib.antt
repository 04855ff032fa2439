pub mod Paging
pub mod TableLayout
pub mod Edits
pub mod Rows
pub mod Faults
pub mod Laws
