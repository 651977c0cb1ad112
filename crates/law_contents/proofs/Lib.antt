pub mod Held
pub mod Ids
pub mod Sound
