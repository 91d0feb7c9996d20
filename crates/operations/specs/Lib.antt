pub mod methods
pub mod operators
