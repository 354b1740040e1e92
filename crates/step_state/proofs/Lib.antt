pub mod Borrowed
pub mod InOrder
