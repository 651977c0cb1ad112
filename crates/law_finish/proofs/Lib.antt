pub mod Storing
pub mod Finish
