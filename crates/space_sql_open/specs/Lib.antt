pub mod OpenFault
pub mod Opening
pub mod Inside
pub mod OldRows
pub mod Relaying
pub mod FirstMeta
pub mod Upgrading
