pub mod Config
pub mod ConfigData
pub mod Given
pub mod Header
pub mod Line
pub mod Scan
pub mod Template
pub mod Undo
