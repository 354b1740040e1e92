pub mod Adding
pub mod CallerLemmas
pub mod Keeping
