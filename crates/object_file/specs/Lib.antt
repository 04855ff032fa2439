pub mod Parts
pub mod Format
pub mod Answer
pub mod Reading
