pub mod Meaning
pub mod Shapes
pub mod Fields
pub mod Steps
