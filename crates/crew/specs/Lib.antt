pub mod Bands
pub mod Hands
pub mod Parts
pub mod Crew
pub mod code
pub mod Crewed
