pub mod Audio
pub mod Place
pub mod Prefix
pub mod code
pub mod Run
pub mod Underway
