pub mod KeptLast
pub mod KeptPieces
pub mod Named
pub mod SpelledTexts
pub mod SpelledTree
pub mod Zeros
