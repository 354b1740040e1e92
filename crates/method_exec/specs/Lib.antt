pub mod Applied
pub mod Shown
pub mod Walking
