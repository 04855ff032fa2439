pub mod RegisterVariables
pub mod PiecesAppended
pub mod StatementCounts
pub mod TypedIsEmittable
pub mod TestsGetDistances
pub mod FunctionLengths
pub mod ShortStatements
pub mod FunctionRanges
pub mod StatementsAreMade
mod TypedReads
pub mod FunctionsAreMade
pub mod TypedCanBeEmitted
pub mod PremisesOfFunctions
mod FactsEnded
