pub mod Layout
pub mod Strides
pub mod Slices
