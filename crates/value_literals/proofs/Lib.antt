mod Bytes
mod Covers
mod Filling
mod Room
mod Sizing
mod Steps
mod Total
mod Weights
