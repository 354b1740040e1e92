pub mod Language
pub mod Judge
