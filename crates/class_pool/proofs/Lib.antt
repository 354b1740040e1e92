mod Chars
pub mod CallerLemmas
mod Entering
mod Firsts
mod Grows
mod Keys
mod Lengths
mod Maps
mod Once
mod Potential
mod Shows
mod Steps
mod TagBytes
mod Texts
mod Units
