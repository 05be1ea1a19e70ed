pub mod IdTexts
pub mod EntityId
pub mod Entity
pub mod Subscription
pub mod Ovn
pub mod Serial
pub mod Airspace
pub mod Search
