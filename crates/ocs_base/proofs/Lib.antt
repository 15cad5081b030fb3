pub mod Masks
pub mod Registers
pub mod Addresses
