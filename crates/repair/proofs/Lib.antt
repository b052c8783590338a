pub mod Walks
pub mod Tails
pub mod Frames
pub mod Order
pub mod Laws
pub mod Lengths
pub mod Outcomes
