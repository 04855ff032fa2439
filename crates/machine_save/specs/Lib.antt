pub mod Room
pub mod Resume
pub mod SavedBoots
pub mod ResumeRun
pub mod SaveCalls
pub mod ResumeCalls
