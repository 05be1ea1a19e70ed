pub mod Scopes
pub mod Tokens
