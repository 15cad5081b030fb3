pub mod BlitWords
pub mod Blit
pub mod AreaBlit
pub mod LineBlit
pub mod Blitter
pub mod Choice
pub mod Parity
