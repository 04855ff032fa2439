pub mod Bases
pub mod Relation
pub mod Laws
pub mod FactLaws
