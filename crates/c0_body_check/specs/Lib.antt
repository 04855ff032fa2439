pub mod Scope
pub mod Check
pub mod Stmts
