pub mod Places
pub mod Seen
pub mod Fronts
pub mod SeenSights
