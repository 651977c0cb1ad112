pub mod Along
pub mod Left
