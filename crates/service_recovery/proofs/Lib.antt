pub mod Crashes
pub mod Restarts
pub mod Persisting
pub mod Lives
pub mod Grouping
pub mod InBatches
