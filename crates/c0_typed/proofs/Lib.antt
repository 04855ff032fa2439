mod StructsByNumber
mod KeptTypes
mod TreesOfLists
mod OneFunctionMore
mod SizedBodies
mod NumbersAreOfValues
pub mod BareTrees
mod NeedsAreFew
