pub mod FactRegisters
pub mod ShortExpressions
pub mod NodeTypes
pub mod TestLengths
mod CodeNeverEmpty
mod JudgedByVariables
mod InRange
mod PatchedIsTestCode
mod ExitsAreNear
mod OutermostPart
mod BranchPatched
mod UnpatchedTests
mod PowersOfTwo
mod NodesAreMade
pub mod NeedsAreSome
