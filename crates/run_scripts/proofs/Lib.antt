pub mod GetsKeep
pub mod ResumeScripts
pub mod EachHeadline
mod SchedulesPromise
mod LinkedAreWords
pub mod SystemsFollow
pub mod AcceptedImages
pub mod RunsStart
pub mod RowsAlongRuns
pub mod ScriptsTell
pub mod ReportsTell
pub mod ScriptsMadeOf
mod LastingProperties
pub mod ScriptsStore
pub mod LoadMakesSectors
pub mod StoredRuns
pub mod KeysOfEachRun
pub mod OneCommand
pub mod CommandOutcomes
pub mod ScriptCalls
pub mod FilesAmongWords
pub mod CallsOfCommands
pub mod StatusesCaused
pub mod NothingElseRefused
pub mod RunsComplete
pub mod SavesComplete
pub mod PlansAreAsked
pub mod TracesIsolate
pub mod BrokenScripts
pub mod SectorsBehind
pub mod RunFaults
pub mod SaveFaults
pub mod FaultsLeave
pub mod YesIsEnough
mod TurnsRise
mod SavesJoin
mod PerformedScripts
mod SavedMachines
mod SavesHold
mod ResumesGoOn
mod ResumedMachines
mod DiskDoesntMatter
pub mod RunPromises
pub mod PromisedSaves
pub mod MachinesRest
mod ResumeFaults
pub mod PromisesByRuns
