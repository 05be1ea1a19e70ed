pub mod Batches
pub mod Blind
pub mod Database
pub mod Delivered
pub mod Numbers
pub mod Policy
pub mod PurgePlan
pub mod Purging
