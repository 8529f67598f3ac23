pub mod Regions
pub mod Cuts
