mod AsEvaluated
pub mod Blocks
mod Closing
pub mod Coming
mod Costs
mod Depending
pub mod Doing
mod Examples
pub mod Ending
pub mod Halting
pub mod Looping
pub mod Machines
mod Noting
mod Pairs
mod Paths
pub mod Places
pub mod Reading
pub mod Spelling
pub mod Stack
pub mod Starting
mod Ticking
