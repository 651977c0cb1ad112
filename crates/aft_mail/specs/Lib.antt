pub mod BoxState
pub mod Desk
