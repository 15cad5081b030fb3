pub mod Rows
pub mod Spreading
pub mod OnceTable
pub mod TwiceTable
pub mod Loading
pub mod Pairs
pub mod KeptLoads
pub mod FourBytes
