pub mod Through
pub mod Boots
pub mod Mailers
pub mod Texts
pub mod Compiled
