pub mod Asked
pub mod Fault
pub mod Order
pub mod RewindOrder
pub mod Texts
pub mod Words
