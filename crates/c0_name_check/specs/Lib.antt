pub mod Names
pub mod Met
pub mod Structs
pub mod Spaces
