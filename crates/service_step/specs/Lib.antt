pub mod Reply
pub mod Step
pub mod Admitted
pub mod Looks
pub mod Needed
