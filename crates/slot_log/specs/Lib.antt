pub mod Purpose
pub mod Entry
pub mod Record
pub mod Heading
