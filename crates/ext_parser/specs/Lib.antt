pub mod Faults
pub mod SecondWalk
pub mod Declarations
pub mod ThirdWalk
pub mod ProjectOfTheBytes
pub mod RightTexts
