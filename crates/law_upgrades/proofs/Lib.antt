pub mod Orders
pub mod Shown
pub mod Ends
pub mod Traces
