pub mod Answers
pub mod Encoding
pub mod Given
pub mod GivenView
pub mod Kept
pub mod MakingSettings
pub mod Running
pub mod Status
