pub mod Files
pub mod Served
pub mod Copies
pub mod PoolFiles
