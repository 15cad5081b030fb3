pub mod Words
pub mod SingleBits
pub mod Shifting
pub mod Rotating
pub mod TopBit
pub mod Turning
