pub mod Orders
pub mod Seats
pub mod Begins
pub mod Goes
pub mod Over
pub mod Sits
pub mod Words
