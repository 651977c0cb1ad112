pub mod Words
pub mod Start
pub mod Built
pub mod Status
