pub mod Cut
pub mod Reading
pub mod Bounds
pub mod RightTexts
pub mod Kept
pub mod Settings
pub mod OneMore
