pub mod Runs
pub mod Sizes
pub mod Stores
pub mod Applies
pub mod Outcomes
