pub mod Sorted
pub mod Entities
pub mod OwnKeys
pub mod Availabilities
pub mod Subscriptions
pub mod Lists
