mod Backends
mod CallOrders
pub mod Events
mod Keys
mod Queues
mod Replies
mod Served
pub mod Sets
pub mod States
pub mod Steps
pub mod Tellings
pub mod Turns
mod Waits
