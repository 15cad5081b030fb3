pub mod Quiet
pub mod Rules
