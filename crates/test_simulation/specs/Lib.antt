pub mod Clock
pub mod Record
