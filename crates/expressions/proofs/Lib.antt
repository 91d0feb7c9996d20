pub mod Assigning
pub mod Evaluating
pub mod Filling
mod Meanings
pub mod Opening
pub mod Taking
pub mod Walking
