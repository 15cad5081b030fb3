pub mod PlaneCount
pub mod PixelColour
