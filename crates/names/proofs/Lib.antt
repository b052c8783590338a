pub mod Laws
pub mod Passed
pub mod Marked
pub mod Ordered
pub mod Readers
pub mod Finding
pub mod Outcomes
