pub mod WantedFiles
pub mod PremisesOfSaves
pub mod ResumeAnswers
pub mod SaveCalls
pub mod ResumeCalls
