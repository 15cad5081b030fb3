pub mod Present
pub mod Places
pub mod Told
pub mod code
