pub mod Modes
pub mod Tables
pub mod Rows
