pub mod Showing
pub mod Pruning
pub mod Standing
pub mod Searching
pub mod Spanning
