mod WordsOfTheBuffer
mod WordsMoved
mod FramesSwapped
