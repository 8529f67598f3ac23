pub mod Places
pub mod Painted
pub mod Steps
pub mod Taken
pub mod Followed
pub mod Lawful
