pub mod Folder
pub mod Paths
pub mod Below
pub mod Names
pub mod BuildFolders
