pub mod Blanks
pub mod Hex
pub mod Lines
pub mod Number
