pub mod Cause
pub mod Names
pub mod Contents
pub mod Indexed
