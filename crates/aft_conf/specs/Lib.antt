pub mod Gives
pub mod Settings
