pub mod Histories
pub mod Heard
pub mod Boxes
pub mod Desks
