pub mod Laws
pub mod Apart
pub mod Alone
pub mod Places
pub mod Outcomes
