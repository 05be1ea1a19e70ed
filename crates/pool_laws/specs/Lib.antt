pub mod Clients
pub mod Program
pub mod Purges
pub mod Steps
