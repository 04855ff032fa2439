pub mod Tokens
pub mod Spelling
pub mod Lexis
pub mod Nesting
pub mod Order
pub mod View
