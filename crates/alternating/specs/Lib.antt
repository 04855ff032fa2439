pub mod Tree
pub mod Text
pub mod Users
pub mod Property
pub mod Boots
