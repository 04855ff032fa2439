pub mod Tree
pub mod Text
pub mod Property
pub mod Boots
pub mod Compiled
