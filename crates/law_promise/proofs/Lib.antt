pub mod Doors
pub mod Undamaged
