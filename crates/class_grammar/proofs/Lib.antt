pub mod CallerLemmas
mod Files
mod Grammars
mod Right
