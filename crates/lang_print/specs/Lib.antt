pub mod Naming
pub mod Tokens
pub mod Canonical
pub mod Lines
