pub mod Same
pub mod Laws
pub mod Readers
pub mod Times
pub mod Taken
pub mod Exactly
pub mod Output
pub mod Outcomes
