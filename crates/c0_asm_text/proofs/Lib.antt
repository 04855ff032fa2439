pub mod FirstLines
pub mod LinesAllowed
