pub mod ReadIsSpelled
pub mod FirstByteCuts
pub mod FrontsOfDigits
pub mod FirstLineIsCut
pub mod HexDigitsByIndex
pub mod SpelledIsDecimal
pub mod WholeWordsSpellNumbers
