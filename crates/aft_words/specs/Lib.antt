pub mod Parts
pub mod Asked
pub mod Reading
pub mod Views
