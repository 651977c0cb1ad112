pub mod Calls
pub mod Made
pub mod Seen
pub mod View
pub mod Way
