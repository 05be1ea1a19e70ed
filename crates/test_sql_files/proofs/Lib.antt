pub mod Remains
pub mod Lives
