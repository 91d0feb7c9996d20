pub mod Functions
pub mod MethodNames
pub mod Names
pub mod ObjectMethods
pub mod ValueMethods
pub mod Rows
