pub mod Beside
pub mod Gets
pub mod Boots
