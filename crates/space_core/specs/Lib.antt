pub mod Calls
pub mod Met
pub mod Batch
pub mod GroupCommit
pub mod Space
