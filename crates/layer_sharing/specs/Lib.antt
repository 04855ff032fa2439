pub mod Passing
pub mod Sharing
