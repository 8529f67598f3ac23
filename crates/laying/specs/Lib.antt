pub mod Printout
