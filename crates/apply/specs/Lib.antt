pub mod Applied
pub mod Runs
