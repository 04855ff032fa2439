mod ProgramsCome
mod CallerAnswered
pub mod CountedComes
pub mod StepsOverParts
pub mod BareImages
mod AdderCounts
mod AddersCall
mod AdderTexts
pub mod ProgramsAskAndEnd
