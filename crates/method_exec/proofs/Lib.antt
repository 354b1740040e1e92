pub mod Fields
pub mod Forms
pub mod Listing
pub mod Showing
