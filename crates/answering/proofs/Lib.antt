mod EveryStepKeepsIt
mod TextIsTree
mod AnyUsersAnswered
mod AnyProgramsAnswered
mod CompiledAnswers
mod StepCounts
