pub mod Driven
pub mod Kept
