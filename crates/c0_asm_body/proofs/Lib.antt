mod WordsSetRegisters
mod InstructionsSet
mod ArgumentsAndZeros
mod BodiesRun
