pub mod FaultText
pub mod Numbered
pub mod WorldText
