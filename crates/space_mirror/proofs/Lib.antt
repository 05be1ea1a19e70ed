pub mod Purging
pub mod Mirrors
pub mod Committed
pub mod Pending
pub mod States
