pub mod Puts
pub mod Staying
pub mod WordTexts
pub mod EdgeTexts
pub mod WordSteps
pub mod EdgeSteps
pub mod TailSteps
pub mod HeldWords
pub mod Machines
pub mod Pieces
pub mod ShellWords
pub mod Tokens
pub mod ReadLines
pub mod EdgeBlocks
pub mod WholeFile
mod Examples
