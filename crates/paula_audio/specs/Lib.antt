pub mod Channel
pub mod Sound
pub mod Paula
pub mod code
