-- Collects the names that contracts about values use.
pub use Rattle.values.specs.Limits.{Appends, within, within_bytes}
pub use Rattle.values.specs.Tables.{Answers, string_in}
pub use Rattle.values.specs.View.{data_of, entries_of, items_of}
