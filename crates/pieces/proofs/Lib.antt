pub mod Pieces
pub mod Added
pub mod Outcomes
