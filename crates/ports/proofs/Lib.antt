pub mod Going
pub mod OpenNames
pub mod Sending
pub mod Untold
pub mod Files
pub mod Recorded
