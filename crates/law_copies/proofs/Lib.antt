pub mod Stays
pub mod Between
pub mod Runs
pub mod Taken
pub mod Undamaged
pub mod Told
