pub mod Asked
pub mod Operation
