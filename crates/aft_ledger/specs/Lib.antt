pub mod View
pub mod Fresh
pub mod Ledger
pub mod Turns
pub mod Picks
pub mod Knowing
pub mod Stages
pub mod Holding
