pub mod Rows
pub mod Finds
pub mod Cells
pub mod Volumes
pub mod Head
pub mod Subs
pub mod SubHead
pub mod Laws
