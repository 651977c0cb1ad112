pub mod Doing
pub mod Scenes
pub mod Moments
pub mod Desk
pub mod Copying
