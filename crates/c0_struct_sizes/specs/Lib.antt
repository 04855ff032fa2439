pub mod Graph
pub mod Parts
pub mod Walk
