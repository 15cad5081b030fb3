pub mod ShownCount
pub mod Log
pub mod LogLaws
pub mod Closing
