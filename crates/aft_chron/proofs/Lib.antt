pub mod Sums
pub mod Prefixes
pub mod Seats
pub mod Turns
pub mod Parts
pub mod Tried
