pub mod Maps
pub mod Purges
pub mod Chunks
pub mod PurgeItems
pub mod Plain
