mod Examples
pub mod FilesBehind
pub mod Numbers
pub mod Places
pub mod Steps
pub mod Unmarked
