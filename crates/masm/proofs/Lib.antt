pub mod RunsCompose
pub mod StraightBlocks
pub mod JumpsLead
pub mod LoopsAndRoutines
pub mod LoopsPay
pub mod RulesForRoutines
pub mod BlocksStand
mod RegistersStay
mod WordsCopied
mod WaitEnds
mod SectorTransfers
mod CallsAndReturns
