pub mod CallerLemmas
pub mod Elements
pub mod ItemKinds
pub mod Ranks
pub mod Rising
