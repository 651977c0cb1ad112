pub mod Refusals
pub mod Stands
pub mod Steps
pub mod Trail
