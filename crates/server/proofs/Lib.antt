pub mod Changes
pub mod Numbers
pub mod Operates
pub mod Rounds
pub mod Runs
pub mod Turns
