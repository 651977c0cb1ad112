pub mod Pairs
pub mod Newest
pub mod Audit
pub mod Scans
pub mod Versions
pub mod Upgrading
