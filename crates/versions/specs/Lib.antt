pub mod Version
pub mod Condition
pub mod Code
