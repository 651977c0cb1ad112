pub mod KnownCommits
pub mod Acts
pub mod Index
