pub mod Text
pub mod Modes
pub mod Clocks
pub mod Letters
pub mod Row
pub mod Table
pub mod code
