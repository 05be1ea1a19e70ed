pub mod Parts
pub mod Acts
pub mod Follower
