pub mod ReadIsSpelling
pub mod OneLineMore
pub mod RowsSought
pub mod SpelledIsRead
pub mod WordsOfRows
