pub mod IntegerLemmas
pub mod PartLemmas
mod Examples
pub mod LimitLemmas
mod TextItems
mod FormattedLemmas
mod KeyLemmas
mod TextListLemmas
mod KeyOrders
mod PlaceCounts
