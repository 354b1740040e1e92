pub mod PlanText
pub mod ProjectFaultText
pub mod BuildText
