pub mod PlaneBit
