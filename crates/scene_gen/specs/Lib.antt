pub mod Blocks
pub mod Scene
