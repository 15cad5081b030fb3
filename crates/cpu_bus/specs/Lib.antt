pub mod Beside
pub mod Bus
pub mod Quiet
