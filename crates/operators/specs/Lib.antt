pub mod Found
pub mod Operands
pub mod Operations
