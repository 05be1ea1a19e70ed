pub mod BackendEvent
pub mod Does
pub mod Phase
pub mod Request
pub mod Told
