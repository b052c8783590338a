pub mod Calls
pub mod Listed
pub mod Numbers
