pub mod ByPlaces
pub mod Sets
pub mod Requests
pub mod Answered
pub mod Outcomes
