pub mod Numbers
pub mod Choices
pub mod Parities
pub mod Filling
pub mod Addresses
