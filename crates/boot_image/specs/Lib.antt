pub mod Parts
pub mod Format
pub mod Fault
pub mod Reading
pub mod Answer
