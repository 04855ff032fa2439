pub mod Ports
pub mod Transfers
