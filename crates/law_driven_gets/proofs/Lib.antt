pub mod Picked
pub mod Open
pub mod Goes
