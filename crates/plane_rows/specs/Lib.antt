pub mod code
pub mod Row
pub mod Line
