pub mod Numbers
pub mod Own
pub mod Pool
pub mod Served
pub mod Waiting
