pub mod code
pub mod BandPainter
pub mod Given
pub mod Direct
