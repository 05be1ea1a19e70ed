pub mod Mirrored
pub mod Laws
pub mod Lists
pub mod Purges
