pub mod Image
pub mod Runs
pub mod Premises
pub mod Laws
pub mod Laid
pub mod Real
