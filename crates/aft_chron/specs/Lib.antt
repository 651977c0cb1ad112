pub use Rattle.atomic_table.specs.Seated
pub mod Standing
pub mod Rule
pub mod Steps
pub mod Places
pub mod Tried
