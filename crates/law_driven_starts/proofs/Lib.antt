pub mod Newest
pub mod Ends
pub mod Courses
pub mod OneNode
pub mod OwnTurns
pub mod OwnBoots
pub mod Goes
