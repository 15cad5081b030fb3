pub mod NameLaws
pub mod RewindLaws
