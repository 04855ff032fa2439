pub mod Coming
pub mod Dispatches
pub mod Counts
pub mod Asking
pub mod Adders
pub mod AdderTexts
