pub mod Made
pub mod Rings
pub mod Saves
