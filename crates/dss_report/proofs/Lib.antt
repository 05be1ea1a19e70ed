pub mod Lines
pub mod Placed
pub mod Reported
