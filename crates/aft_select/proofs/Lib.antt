pub mod Walks
pub mod Keys
pub mod Late
pub mod Turns
pub mod Repeats
pub mod Named
