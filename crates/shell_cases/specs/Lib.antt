pub mod Sure
pub mod Telling
