pub mod Tests
pub mod Ends
pub mod Gets
pub mod Begins
