pub mod Texts
pub mod Naming
pub mod EntityRows
pub mod Entity
pub mod SubscriptionRows
pub mod Subscription
pub mod Dependents
pub mod Availability
