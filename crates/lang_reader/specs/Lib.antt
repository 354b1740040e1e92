pub mod Cursor
pub mod Compared
