mod Asking
mod Ended
mod Ending
mod Led
mod Once
pub mod Picked
mod Reading
pub mod Stands
