pub mod Meaning
pub mod Stands
pub mod Stopped
