pub mod Causes
pub mod Files
pub mod MapOfFiles
pub mod Shelves
pub mod Sinks
pub mod Systems
pub mod Fakes
pub mod Edges
