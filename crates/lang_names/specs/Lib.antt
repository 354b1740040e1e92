pub mod Checked
pub mod Settings
pub mod Exprs
pub mod Stmts
pub mod Names
