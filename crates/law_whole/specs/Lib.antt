pub mod Readable
pub mod Values
pub mod Marks
