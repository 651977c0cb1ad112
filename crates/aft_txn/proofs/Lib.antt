pub mod Buffers
pub mod Times
pub mod Pinned
pub mod Legal
pub mod Sound
pub mod Tables
