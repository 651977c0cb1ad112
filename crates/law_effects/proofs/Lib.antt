pub mod Follows
pub mod Pairs
pub mod Proves
