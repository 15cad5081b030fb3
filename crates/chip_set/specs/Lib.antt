pub mod AskLaws
pub mod Beside
pub mod Bus
pub mod Chips
pub mod Quiet
