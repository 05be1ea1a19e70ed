mod Chains
mod Fronts
mod Lengths
mod Limits
mod Named
pub mod OneBody
mod Zero
