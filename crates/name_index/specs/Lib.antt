pub mod Place
pub mod Indexed
