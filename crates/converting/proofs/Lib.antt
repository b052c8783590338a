pub mod Sizes
pub mod Stores
pub mod OldReads
pub mod ByNames
pub mod Answered
pub mod Outcomes
pub mod Claim
