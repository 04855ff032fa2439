pub mod Held
pub mod Outer
pub mod Placed
pub mod Host
pub mod Runs
pub mod Follows
