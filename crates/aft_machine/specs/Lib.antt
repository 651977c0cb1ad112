pub mod Asks
pub mod OneNode
pub mod PutMade
pub mod PutView
pub mod Starved
