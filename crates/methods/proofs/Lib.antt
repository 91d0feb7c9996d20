pub mod Asking
pub mod Supported
pub mod Values
pub mod Others
pub mod Outputs
pub mod At
