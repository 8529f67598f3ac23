pub mod Bounds
pub mod Positions
