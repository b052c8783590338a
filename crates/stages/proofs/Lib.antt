pub mod Limits
pub mod Outcomes
