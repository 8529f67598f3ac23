pub mod Numbers
pub mod Places
mod Strides
