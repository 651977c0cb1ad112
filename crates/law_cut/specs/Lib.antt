pub mod Served
pub mod Copying
