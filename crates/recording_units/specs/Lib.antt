pub mod Listing
pub mod Units
