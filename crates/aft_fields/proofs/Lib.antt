pub mod Steps
pub mod Bytes
pub mod Wide
pub mod Texts
pub mod Cells
pub mod Found
pub mod Again
pub mod Rows
