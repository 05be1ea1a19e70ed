pub mod Endpoint
pub mod Route
pub mod Table
