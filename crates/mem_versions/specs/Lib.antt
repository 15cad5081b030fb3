pub mod Chip
pub mod code
pub mod Kept
pub mod Lending
pub mod MemView
pub mod MemoryAt
pub mod Sound
