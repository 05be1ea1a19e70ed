pub mod Crash
pub mod Restart
pub mod Life
pub mod InBatches
