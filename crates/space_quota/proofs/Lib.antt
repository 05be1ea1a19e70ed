pub mod Bounds
pub mod Purging
