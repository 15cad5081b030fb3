-- What only private functions cite: no public contract leads here.
pub mod Lines
pub mod Parts
pub mod Timing
