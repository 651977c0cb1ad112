pub mod Tests
pub mod Differ
pub mod Proven
