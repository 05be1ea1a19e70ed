mod Counting
mod Chunks
mod Explaining
mod Served
mod PoolServed
mod Setups
