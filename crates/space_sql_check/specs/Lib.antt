pub mod Source
pub mod Parts
pub mod Checking
