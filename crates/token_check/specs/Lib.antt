pub mod TokenFileError
pub mod TokenFileErrors
pub mod New
pub mod NewFault
pub mod Statement
pub mod Summary
pub mod Warnings
