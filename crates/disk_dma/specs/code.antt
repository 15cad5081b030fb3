-- What only private functions cite: no public contract leads here.
pub mod Queue
pub mod Disk
