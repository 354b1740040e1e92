pub mod Places
pub mod Checks
pub mod OneFault
pub mod Running
pub mod Told
