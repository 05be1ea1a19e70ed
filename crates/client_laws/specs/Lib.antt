pub mod Blind
pub mod Executions
pub mod RealTime
