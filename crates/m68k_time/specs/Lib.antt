pub mod Time
pub mod Boundaries
