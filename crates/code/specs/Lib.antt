pub mod Code
pub mod Draft
pub mod FileDraft
pub mod FormatStrings
pub mod Literals
pub mod Names
pub mod Nodes
pub mod Statements
