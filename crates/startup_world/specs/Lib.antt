pub mod Paying
pub mod Places
