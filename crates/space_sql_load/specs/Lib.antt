pub mod Showing
pub mod Gathering
pub mod Checking
