pub mod Entries
pub mod Index
pub mod Least
pub mod Ledger
pub mod Refusals
pub mod Calls
pub mod Tried
