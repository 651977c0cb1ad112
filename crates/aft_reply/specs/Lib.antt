pub mod Behind
pub mod Gives
pub mod Heard
pub mod Limits
pub mod Reading
