pub mod Fetched
pub mod Made
pub mod View
