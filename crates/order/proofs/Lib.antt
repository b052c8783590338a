pub mod Keys
pub mod Seats
pub mod Laws
pub mod Outcomes
