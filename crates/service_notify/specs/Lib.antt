pub mod Notices
pub mod Notified
