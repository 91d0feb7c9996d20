pub mod Integers
pub mod Types
pub mod Rows
pub mod Operations
pub mod Logic
pub mod Index
pub mod Literal
pub mod TextLists
