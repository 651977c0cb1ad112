mod Clocks
mod Promised
mod PutCaused
mod PutStands
mod PutTurn
mod StarvedStands
