pub mod BlanksAndDigits
pub mod SpellingFound
pub mod TokensShorten
pub mod NextTokens
pub mod TokensEnd
pub mod LongestMark
pub mod TokensAreSmall
