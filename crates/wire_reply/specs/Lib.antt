pub mod Json
pub mod Reference
pub mod SubView
pub mod Subscribers
pub mod Answer
pub mod Explained
pub mod Built
pub mod Tokens
