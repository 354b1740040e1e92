pub mod Fitting
pub mod Playable
pub mod Proxies
pub mod Sizes
