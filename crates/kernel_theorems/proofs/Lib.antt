mod TextsMeanTrees
pub mod LessSaid
pub mod ComputedDispatches
mod RoundRobins
mod RoundRobinTexts
mod EachGetsATurn
mod GuardedNeverFaults
mod GuardedTexts
mod FoundRegisters
mod TrapData
mod MessagesDelivered
mod MailboxTexts
mod LoggingIsKept
mod LoggingTexts
mod AtMostOneInside
mod SemaphoreTexts
pub mod UserRuns
pub mod TestsSplit
pub mod OneDispatchMore
pub mod CallersFit
pub mod OneKernel
pub mod ForKernels
