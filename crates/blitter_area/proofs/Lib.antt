pub mod Remainders
pub mod Moves
pub mod Rows
pub mod Copies
pub mod Held
pub mod Results
pub mod Walking
