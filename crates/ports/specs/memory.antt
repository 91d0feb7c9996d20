pub mod MemOutputs
pub mod MemTree
pub mod Plan
pub mod Slots
