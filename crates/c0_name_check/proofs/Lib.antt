pub mod OneNameChanges
pub mod FaultsMet
pub mod StructsTell
pub mod OneMoreDeclared
