pub mod Alphas
pub mod Arrays
pub mod Paintings
pub mod Planes
pub mod Samples
