pub mod FaultRun
pub mod Laws
pub mod Labels
pub mod QuestionLines
pub mod Questions
pub mod Setup
pub mod Tasks
