pub mod Bytes
pub mod FaultText
pub mod Grammar
pub mod Layout
pub mod Valid
