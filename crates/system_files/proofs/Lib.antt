pub mod ReadIsSpelled
pub mod LinesOfTexts
pub mod SpelledIsRead
mod FirstTextFault
