pub mod Generating
pub mod Made
pub mod Numbers
pub mod Runnables
pub mod Splits
pub mod Uuids
