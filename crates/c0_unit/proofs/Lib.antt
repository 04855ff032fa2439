pub mod OneFunctionMore
pub mod FunctionsInOrder
pub mod PartsStand
pub mod TreesOfFunctions
pub mod UnitAddresses
