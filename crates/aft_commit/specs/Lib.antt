pub mod Asks
pub mod Calls
pub mod Made
pub mod Told
pub mod View
