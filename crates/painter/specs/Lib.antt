pub mod code
pub mod Inks
pub mod Runs
pub mod Painter
pub mod RunningWords
pub mod Span
pub mod SpanParts
