pub mod Make
pub mod Numbers
