pub mod Sound
pub mod Adding
pub mod Closing
pub mod Laws
pub mod Outcomes
