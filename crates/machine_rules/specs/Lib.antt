pub mod Rows
pub mod Faults
pub mod Machine
pub mod Seen
pub mod Values
pub mod Spelled
pub mod Laws
