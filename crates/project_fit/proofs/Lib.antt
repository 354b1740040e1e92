pub mod Apart
pub mod FullNames
pub mod Numbers
