pub mod Airspaces
pub mod Ends
pub mod Events
pub mod Done
