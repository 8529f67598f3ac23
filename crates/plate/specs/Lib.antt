pub mod Format
pub mod Fields
