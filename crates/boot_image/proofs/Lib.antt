pub mod OneUserMore
pub mod AnswersByFound
pub mod SpellingIsAnswered
pub mod AnsweredIsSpelling
pub mod FormatWords
mod PiecesSpellImages
mod FieldsInRange
mod StopsAtFault
mod OneAnswer
mod TwoReadings
mod WhereItStopped
mod AnswersAreSo
