pub mod SetUp
pub mod Stops
pub mod Refused
pub mod Outcomes
