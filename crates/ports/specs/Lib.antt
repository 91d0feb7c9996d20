pub mod DiskOutputs
pub mod DiskTree
pub mod Endings
pub mod NoOutputs
pub mod Outputs
pub mod Reading
pub mod Tree
pub mod memory
