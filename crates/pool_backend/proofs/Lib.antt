pub mod Did
pub mod Does
pub mod Given
pub mod Own
pub mod Receive
pub mod Stories
