pub mod Fields
pub mod Laws
pub mod Lent
pub mod Outcomes
