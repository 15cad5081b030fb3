pub mod Track
pub mod code
pub mod Disk
