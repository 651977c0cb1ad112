pub mod OneList
pub mod Histories
