pub mod ItemsLemmas
pub mod EntriesLemmas
pub mod KeysLemmas
pub mod SameLemmas
pub mod BuilderLemmas
mod FlatLists
pub mod SearchLemmas
pub mod CharsLemmas
pub mod NumberLemmas
pub mod StripLemmas
pub mod PiecesLemmas
mod ByteLemmas
pub mod CutLemmas
pub mod JoinedLemmas
pub mod SegmentLemmas
pub mod PartsLaws
mod Examples
mod PrintingExamples
mod PrintedLemmas
mod PieceLemmas
