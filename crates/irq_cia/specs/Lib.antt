pub mod Bits
pub mod Interrupts
pub mod Cia
pub mod Icr
pub mod Port
pub mod Timer
pub mod Tod
pub mod Ticks
