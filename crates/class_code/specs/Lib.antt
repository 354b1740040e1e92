pub mod Encoded
pub mod Methods
pub mod Opcodes
