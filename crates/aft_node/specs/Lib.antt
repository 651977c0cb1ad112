pub mod Outcomes
pub mod Closing
pub mod Held
pub mod Booting
pub mod Beginning
pub mod Getting
pub mod Committing
pub mod Rounds
