mod Compact
mod Explanations
mod Texts
mod Tokens
