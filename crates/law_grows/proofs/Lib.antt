pub mod Collecting
pub mod Positions
pub mod Views
