-- What only private functions cite: no public contract leads here.
pub mod BusRun
pub mod Fetches
pub mod Line
pub mod Quiet
