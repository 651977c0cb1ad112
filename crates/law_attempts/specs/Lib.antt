pub mod Acts
pub mod Rows
