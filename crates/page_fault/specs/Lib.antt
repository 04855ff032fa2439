pub mod Code
pub mod Asked
