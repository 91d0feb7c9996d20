pub mod Counting
pub mod Joining
pub mod Saying
mod Stepping
