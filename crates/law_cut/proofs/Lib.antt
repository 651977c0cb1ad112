pub mod Untouched
pub mod Bytes
pub mod Stands
pub mod Words
pub mod Found
pub mod Takes
pub mod Pairs
pub mod Answered
