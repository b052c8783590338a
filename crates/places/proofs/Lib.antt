pub mod Finding
pub mod Listed
pub mod Walks
pub mod Searches
pub mod Outcomes
