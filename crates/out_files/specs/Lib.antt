pub mod OutFiles
pub mod Answers
pub mod code
pub mod Together
pub mod Places
pub mod Gives
