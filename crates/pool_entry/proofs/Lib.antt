pub mod Numbers
pub mod Fields
pub mod Calls
pub mod Loop
pub mod Entries
pub mod Sizes
pub mod Callers
