pub mod Coming
pub mod Depth_first
pub mod Parted
pub mod Walk
