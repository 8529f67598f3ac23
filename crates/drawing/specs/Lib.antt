pub mod Layers
pub mod Local
pub mod Runs
