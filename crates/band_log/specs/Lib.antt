pub mod Right
pub mod Raster
pub mod Lending
pub mod Laws
