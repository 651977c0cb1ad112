pub mod Pages
pub mod AtDoor
pub mod Undamaged
pub mod Settling
pub mod Fixed
pub mod Judged
pub mod Told
