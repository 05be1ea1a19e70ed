pub mod Breakings
