-- What only private functions cite: no public contract leads here.
pub mod File
pub mod Order
pub mod SlotRun
