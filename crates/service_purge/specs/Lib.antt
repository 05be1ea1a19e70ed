pub mod Ended
pub mod Ahead
pub mod Back
pub mod Kept
pub mod Segments
