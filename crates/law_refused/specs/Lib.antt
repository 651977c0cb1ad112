pub mod Looks
pub mod Upgrades
