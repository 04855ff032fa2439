pub mod EightLines
pub mod RunsHaveRoom
pub mod StatesShown
mod StatesPrinted
pub mod SystemsBoot
mod RoundRobins
mod GuardedBoots
mod MailboxBoots
mod SemaphoreBoots
mod OwnRuns
mod ReportsCut
mod TextsChangeNone
pub mod UsersOfLinked
