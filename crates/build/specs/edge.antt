pub mod Texts
pub mod Data
pub mod Parts
pub mod Paths
pub mod Folders
pub mod Holding
pub mod View
pub mod Own
