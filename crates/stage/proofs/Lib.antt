pub mod Refusals
pub mod Shows
pub mod Starts
pub mod Steps
