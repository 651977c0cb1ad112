pub mod Scans
pub mod Along
pub mod Starts
pub mod Copies
pub mod Orphans
pub mod Openings
