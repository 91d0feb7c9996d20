pub mod Kept
pub mod KeptView
pub mod Pieces
pub mod PiecesView
pub mod Slices
pub mod SlicesView
pub mod Texts
