pub mod Answered
pub mod SummingText
pub mod Summing
pub mod Kernels
