pub mod Sheet
pub mod Rows
pub mod Values
