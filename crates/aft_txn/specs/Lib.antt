pub mod Rows
pub mod Refusals
pub mod Buffer
pub mod Fields
