pub mod Sheets
pub mod Values
pub mod Rows
pub mod Legal
pub mod Outcomes
