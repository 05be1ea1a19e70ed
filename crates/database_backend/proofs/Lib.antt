pub mod Blinds
pub mod Chains
pub mod Outcomes
pub mod Phases
pub mod Policies
pub mod Purges
pub mod Stories
