pub mod Layout
pub mod Numbering
pub mod Statements
pub mod Committing
pub mod Putting
pub mod SubPutting
