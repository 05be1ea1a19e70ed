pub mod ConfFault
pub mod TokenFile
