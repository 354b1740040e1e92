pub mod Rising
pub mod PlanRows
pub mod Pieces
