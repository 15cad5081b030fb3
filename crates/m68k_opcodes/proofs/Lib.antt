pub mod Keys
pub mod Table
pub mod Line0
pub mod Line4
pub mod Lines1to9
pub mod LinesAtoF
pub mod Whole
