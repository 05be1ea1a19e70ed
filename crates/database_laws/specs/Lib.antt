pub mod Kept
pub mod OneList
pub mod Requests
pub mod Responses
pub mod Serve
