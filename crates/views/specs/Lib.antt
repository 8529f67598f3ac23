pub mod View
pub mod Step
pub mod Runs
