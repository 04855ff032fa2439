pub mod AsmText
pub mod View
