pub mod Front
pub mod Pieces
