pub mod CopyThrough
pub mod CopyOnMachine
