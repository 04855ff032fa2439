pub mod Tree
pub mod Text
pub mod Property
pub mod Users
pub mod Boots
pub mod Compiled
