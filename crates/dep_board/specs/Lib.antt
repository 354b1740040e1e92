pub mod Counts
pub mod Edges
pub mod Rule
pub mod Steps
pub mod Passes
pub mod Views
pub mod Shown
