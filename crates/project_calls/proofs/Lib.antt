pub mod Entries
pub mod Printing
pub mod SpelledOptions
pub mod Unprinted
pub mod Warnings
mod Listed
