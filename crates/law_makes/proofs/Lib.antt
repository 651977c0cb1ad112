pub mod Reached
pub mod Well
pub mod Claims
pub mod Finish
pub mod Others
pub mod Collected
pub mod Whole
pub mod Runs
