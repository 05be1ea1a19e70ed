pub mod Blind
pub mod RealTime
pub mod Requests
