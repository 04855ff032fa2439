pub mod Layer
pub mod Calls
pub mod Follows
pub mod Boots
pub mod Starts
pub mod Users
pub mod Samples
