pub mod Filling
pub mod Answers
