pub mod Paging
pub mod Settling
