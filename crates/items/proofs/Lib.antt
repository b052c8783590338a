pub mod Bytes
pub mod Laws
pub mod Within
pub mod Frames
pub mod Outcomes
