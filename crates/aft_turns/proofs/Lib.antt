pub mod Closed
pub mod Found
pub mod Looked
pub mod Views
pub mod Written
