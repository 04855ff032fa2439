mod RegistersSaved
mod UserKept
