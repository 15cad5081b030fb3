pub mod Matching
pub mod Gathering
pub mod Quiet
