pub mod Rows
pub mod Row
pub mod Spans
pub mod Pointing
pub mod Data
pub mod code
pub mod Path
pub mod Walk
