pub mod Calls
pub mod Kernels
