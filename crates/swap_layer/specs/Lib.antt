pub mod Swap
pub mod Laws
