pub mod Puts
pub mod Moves
pub mod Own
pub mod Kept
pub mod Bystanders
