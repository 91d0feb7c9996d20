pub mod Detailed
pub mod Looked
mod Pieces
pub mod Acting
pub mod Answering
pub mod Closing
pub mod Configuring
pub mod Costs
mod Counts
pub mod Declaring
pub mod Follow
pub mod Found
pub mod Holding
pub mod Leading
pub mod Look
pub mod Marks
pub mod Noting
pub mod Numbers
pub mod Ruling
pub mod Running
pub mod Setting
pub mod Settling
pub mod Tells
mod Trails
pub mod Values
mod MadeSettings
