pub mod Places
pub mod Index
pub mod Finds
pub mod Filters
pub mod Members
pub mod Redactions
pub mod Puts
