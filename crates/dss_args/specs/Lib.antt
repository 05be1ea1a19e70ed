pub mod Grammar
pub mod CommandArgs
pub mod LineFault
