pub mod Repeats
pub mod Services
pub mod Gets
pub mod Reading
pub mod Served
pub mod Blockers
pub mod Boots
pub mod Follows
