pub mod Usage
pub mod Builds
pub mod Outcomes
pub mod Prepared
pub mod Answers
pub mod Ends
pub mod Causes
