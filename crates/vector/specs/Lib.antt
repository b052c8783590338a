pub mod Check
pub mod Fields
pub mod Sweep
