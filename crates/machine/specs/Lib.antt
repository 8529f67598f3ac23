pub mod Calls
pub mod Checks
pub mod Machine
pub mod Laws
