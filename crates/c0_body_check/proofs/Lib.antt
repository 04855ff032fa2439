pub mod NumbersFindNames
pub mod NodeChecks
pub mod PartsAreChecked
pub mod InPlace
pub mod StatementsInPlace
