-- What only private functions cite: no public contract leads here.
pub mod Cut
pub mod Extends
pub mod Number
