pub mod Map
pub mod Samples
