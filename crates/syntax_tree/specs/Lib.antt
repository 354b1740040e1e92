pub mod Undeclared
pub mod Naming
pub mod Known
pub mod Right
