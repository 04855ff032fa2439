pub mod Fault
pub mod Params
pub mod User
pub mod Answer
