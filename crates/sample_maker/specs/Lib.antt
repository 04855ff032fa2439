pub mod Parts
pub mod Program
pub mod Sample
pub mod Source
