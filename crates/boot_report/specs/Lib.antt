pub mod Texts
pub mod Resident
pub mod Scripts
pub mod Told
pub mod Speaks
pub mod Globals
pub mod Given
pub mod Stand
