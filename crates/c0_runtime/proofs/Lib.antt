mod RoutineSteps
mod ClearingLoop
mod NewRoutineEnds
mod HiAndLoAnswer
mod RoutinesCompute
mod KernelEntry
