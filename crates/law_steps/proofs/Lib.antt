pub mod Exact
pub mod Fronts
pub mod Parts
pub mod Own
pub mod Histories
