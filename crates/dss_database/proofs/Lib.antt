mod Reporting
mod Serving
mod Mirrors
mod Purging
mod PoolFiles
