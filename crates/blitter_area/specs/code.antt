-- What only private functions cite: no public contract leads here.
pub mod Copies
