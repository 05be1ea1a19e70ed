pub mod Rows
pub mod Reading
pub mod Selecting
pub mod AvailabilityRecord
pub mod Meta
