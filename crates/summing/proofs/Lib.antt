mod EveryStepKeepsIt
mod UsersCall
mod SummingBoots
mod TextIsTree
mod ReportComputes
mod StepCounts
mod AnyProgramsSum
mod CompiledSumsBoot
