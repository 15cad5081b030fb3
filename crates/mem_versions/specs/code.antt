-- What only private functions cite: no public contract leads here.
pub mod History
pub mod Pages
pub mod Replay
