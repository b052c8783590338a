pub mod Standing
pub mod Opened
pub mod Held
pub mod Answers
pub mod Outcomes
