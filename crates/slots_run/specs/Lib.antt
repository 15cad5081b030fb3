pub mod Fault
pub mod code
pub mod Log
pub mod Order
pub mod Texts
pub mod Top
pub mod Verdict
