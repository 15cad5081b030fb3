pub mod Fillings
pub mod Logging
pub mod Cutting
pub mod Beginning
pub mod ShownLaws
