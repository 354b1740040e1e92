pub mod Marks
pub mod Words
pub mod Numbers
pub mod Quotes
pub mod Tokens
pub mod Kinds
