pub mod Booted
pub mod Picked
pub mod Fetched
pub mod Untried
pub mod Shown
pub mod There
pub mod Keeps
pub mod AllGets
