mod Marked
mod Turns
mod Lexed
mod Counted
mod Written
mod Keywords
mod Taken
mod Lexing
pub mod CallerLemmas
