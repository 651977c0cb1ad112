pub mod Account
pub mod Adding
pub mod Turned
pub mod Next
