pub mod Chain
pub mod Item
pub mod Judged
pub mod Known
