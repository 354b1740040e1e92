pub mod Entries
pub mod Enter
pub mod Growth
pub mod Index
pub mod Modified
pub mod Showing
pub mod Tags
pub mod Units
