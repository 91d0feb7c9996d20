pub mod Assigned
pub mod Digits
pub mod Within
