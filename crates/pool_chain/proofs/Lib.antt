mod Chains
mod Keeping
mod Spellings
