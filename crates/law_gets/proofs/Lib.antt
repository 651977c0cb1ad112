pub mod Gets
pub mod Values
pub mod Stands
pub mod Losses
