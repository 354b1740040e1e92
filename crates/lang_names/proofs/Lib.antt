mod Told
mod Blocks
mod Scopes
pub mod CallerLemmas
