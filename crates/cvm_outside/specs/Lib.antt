pub mod Causes
pub mod Memory
pub mod Numbering
pub mod Outside
pub mod Script
pub mod ScriptLaws
pub mod Shelves
pub mod Told
