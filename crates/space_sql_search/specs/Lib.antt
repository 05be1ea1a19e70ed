pub mod SearchRanges
pub mod CellTable
pub mod Numbers
pub mod Candidates
pub mod Met
