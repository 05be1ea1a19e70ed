pub mod PurgeItem
pub mod Purge
