pub mod Place
pub mod Forms
pub mod Table
pub mod Sentence
pub mod Rules
pub mod Text
