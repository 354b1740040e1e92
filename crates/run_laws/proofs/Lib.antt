pub mod CallerLemmas
mod Kept
mod Lines
mod Once
mod Plays
mod Walks
