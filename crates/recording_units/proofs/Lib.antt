pub mod CallerLemmas
mod Refs
