pub mod Data
pub mod Filling
pub mod Quotes
pub mod Telling
pub mod NameOrders
