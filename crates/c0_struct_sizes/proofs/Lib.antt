pub mod WaysThroughGraphs
pub mod WalkInvariant
pub mod GroupDone
pub mod NumbersTellNames
pub mod WalkMoves
pub mod WalkEnds
pub mod OrderTells
