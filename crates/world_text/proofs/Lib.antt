pub mod Joining
pub mod Tabling
pub mod Texts
pub mod Within
