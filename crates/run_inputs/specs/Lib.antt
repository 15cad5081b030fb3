pub mod Fault
pub mod Inputs
pub mod Names
pub mod Texts
pub mod Verdict
