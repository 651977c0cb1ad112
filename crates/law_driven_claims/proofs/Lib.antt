pub mod Positions
pub mod Standing
pub mod Goes
