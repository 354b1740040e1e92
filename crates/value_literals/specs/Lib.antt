pub mod Bounds
pub mod Code
pub mod Emitted
pub mod Members
pub mod Sizes
pub mod Universe
