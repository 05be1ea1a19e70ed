pub mod Paths
mod Seeks
mod Tables
