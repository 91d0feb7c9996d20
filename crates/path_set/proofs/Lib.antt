pub mod PathLists
