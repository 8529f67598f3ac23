pub mod Fields
pub mod Plans
