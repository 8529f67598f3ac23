pub mod Firsts
pub mod Moved
pub mod Wholes
pub mod Exchanged
