pub mod Notified
pub mod Looked
pub mod Steps
pub mod Preserves
pub mod Visible
pub mod Decided
