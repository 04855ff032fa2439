pub mod Fault
pub mod Resumable
pub mod Tests
pub mod Answer
