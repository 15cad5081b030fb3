pub mod Rasters
pub mod Recorder
