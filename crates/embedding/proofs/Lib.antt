pub mod Filling
pub mod Ran
pub mod Settings
