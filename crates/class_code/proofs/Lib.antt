pub mod CallerLemmas
mod Methods
mod Only
mod Whole
