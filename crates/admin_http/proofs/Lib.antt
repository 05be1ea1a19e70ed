pub mod Airspaces
