pub mod Adding
pub mod Listens
pub mod Matches
