pub mod Numbering
pub mod Refs
