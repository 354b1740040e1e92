pub mod Existing
pub mod Moving
