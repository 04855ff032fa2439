mod RunsJoined
mod FaultDecided
mod FaultHandled
mod KernelEntered
mod DispatchAnswered
mod HandlerWords
