-- What only private functions cite: no public contract leads here.
pub mod Held
pub mod Overlay
pub mod PairOver
pub mod Pixels
pub mod SpriteState
pub mod Starts
pub mod Steady
pub mod Window
