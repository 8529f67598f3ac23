pub mod Shown
pub mod Sides
pub mod Sound
