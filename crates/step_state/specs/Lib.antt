pub mod Bound
pub mod Evaluation
pub mod Operations
pub mod Scoped
pub mod Size
pub mod Spending
