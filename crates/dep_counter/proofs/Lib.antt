pub mod CallerLemmas
mod Elements
mod Lowering
