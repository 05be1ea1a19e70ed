pub mod Cursor
pub mod Reference
pub mod Page
pub mod PageQuery
