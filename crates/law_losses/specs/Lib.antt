pub mod Gets
pub mod Crashed
