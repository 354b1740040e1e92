pub mod Numbers
pub mod WordLaws
pub mod Asked
pub mod Reading
