pub mod Request
pub mod Parts
pub mod Lists
pub mod Purging
pub mod State
pub mod Evaluate
pub mod Effects
pub mod Does
