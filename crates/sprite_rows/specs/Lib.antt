pub mod WordValues
pub mod Laid
pub mod PairFront
pub mod PairCollision
pub mod LineValues
