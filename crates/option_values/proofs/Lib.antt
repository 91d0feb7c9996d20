pub mod OptionValuesCutting
pub mod OptionValuesItems
pub mod Parsing
pub mod Shell
pub mod Known
pub mod BuiltInRows
pub mod EveryText
pub mod Lookups
