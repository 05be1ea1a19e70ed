pub mod Numbers
pub mod Rounds
pub mod Runs
pub mod Watches
