pub mod CallerLemmas
mod Effective
mod Pieces
