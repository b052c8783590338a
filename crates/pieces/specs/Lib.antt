pub mod Pieces
pub mod Added
