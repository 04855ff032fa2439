pub mod BufferIsOwnFrame
pub mod CommandEnds
