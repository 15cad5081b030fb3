pub mod Spreading
pub mod LaidBytes
pub mod Values
pub mod FrontByBytes
pub mod Meeting
pub mod Standing
pub mod Reaching
