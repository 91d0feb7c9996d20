pub mod CallerLemmas
pub mod Lists
pub mod Made
pub mod NameLists
pub mod Parts
pub mod Placed
pub mod StatementTrees
pub mod Trees
