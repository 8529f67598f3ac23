pub mod Buffers
pub mod Grids
pub mod Values
