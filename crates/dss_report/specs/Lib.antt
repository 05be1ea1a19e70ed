pub mod Cell
pub mod Fault
pub mod CellLines
pub mod Reading
pub mod Report
