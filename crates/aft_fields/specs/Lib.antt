pub mod Order
pub mod Spelling
pub mod Kinds
pub mod Place
pub mod Gives
pub mod Reading
