pub mod Runs
pub mod TextNumbers
