mod Attributes
mod Built
pub mod CallerLemmas
mod Codes
mod Formed
mod Joined
mod Kept
mod Members
mod PoolBuilt
mod PoolKept
mod Pools
mod Spelled
mod ValidExactly
mod ValidOnly
