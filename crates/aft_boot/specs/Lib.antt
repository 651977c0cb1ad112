pub mod Booted
pub mod BootView
pub mod CrashView
pub mod Crashed
pub mod Driving
pub mod FirstBoots
pub mod Pages
pub mod World
