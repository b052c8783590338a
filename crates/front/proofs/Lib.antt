pub mod Definitions
pub mod Line3
pub mod Faults
pub mod Fronts
pub mod Passed
pub mod Laws
pub mod Outcomes
