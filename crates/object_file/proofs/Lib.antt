pub mod ReadingSteps
pub mod AnswersAreUnique
pub mod EveryAnswer
