pub mod Asking
pub mod Counting
pub mod Either
pub mod Exactly
pub mod Looking
pub mod NamedFiles
pub mod Stopping
