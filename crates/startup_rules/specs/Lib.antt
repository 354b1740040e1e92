pub mod Worlds
pub mod Operations
pub mod Acting
pub mod Methods
pub mod Visits
pub mod Views
pub mod Direct
pub mod Laws
