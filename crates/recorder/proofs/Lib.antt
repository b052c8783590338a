pub mod Answers
pub mod Closing
pub mod Adding
pub mod Beginning
pub mod Laws
pub mod Bridge
pub mod Outcomes
