pub mod Tree
pub mod View
pub mod Primitives
pub mod Size
pub mod Plain
