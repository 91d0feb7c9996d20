pub mod Settings
pub mod Define
pub mod Passing
pub mod Reading
pub mod Pieces
pub mod Scan
pub mod Staying
pub mod Words
pub mod Undoing
mod Examples
