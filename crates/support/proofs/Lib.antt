mod Names
pub mod NameTexts
pub mod PathTexts
pub mod Staying
mod Examples
pub mod BuildFolders
pub mod Entries
