pub mod Keys
pub mod Maps
pub mod Positions
pub mod EntityLists
pub mod Notified
pub mod Trees
pub mod EntityTrees
pub mod SubscriptionTrees
