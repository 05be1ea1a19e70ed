pub mod Trees
pub mod Tables
pub mod Spelling
pub mod Within
pub mod Making
pub mod Presence
pub mod Laws
