pub mod Fault
pub mod Rows
pub mod Schedule
pub mod Spelling
pub mod Text
