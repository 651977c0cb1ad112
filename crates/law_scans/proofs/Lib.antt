pub mod Runs
pub mod Tells
pub mod Answered
