pub mod Document
pub mod Questions
pub mod QuestionsView
pub mod Pieces
pub mod Sending
