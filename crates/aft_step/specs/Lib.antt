pub mod Worlds
pub mod Going
pub mod Moving
pub mod Sitting
pub mod Crowding
pub mod Asking
