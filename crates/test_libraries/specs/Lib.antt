pub mod Told
pub mod Breaking
