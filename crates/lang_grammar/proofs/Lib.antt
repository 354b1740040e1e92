mod Right
mod Words
mod Tabled
mod Stated
mod Whole
mod Texts
mod Holding
mod Parts
mod Local
mod LocalTabled
mod LocalStated
mod Bodies
pub mod CallerLemmas
