pub mod Spelling
pub mod Reading
pub mod Pushing
pub mod Calls
pub mod Acts
pub mod Laws
pub mod Suppliers
