pub mod Looks
pub mod Outcomes
