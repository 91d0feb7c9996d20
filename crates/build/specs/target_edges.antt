pub mod Ways
pub mod Words
pub mod Edges
pub mod Parts
pub mod PartsView
pub mod Claims
