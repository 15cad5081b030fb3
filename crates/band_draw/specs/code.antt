-- What only private functions cite: no public contract leads here.
pub mod Ahead
pub mod Due
pub mod Progress
pub mod Sound
pub mod Touched
