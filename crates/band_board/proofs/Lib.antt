mod Totals
mod Faces
mod Moved
mod Reviewed
-- the number of bands in all lists, for a crate that counts them
pub mod Counted
mod HandSteps
mod FrontSteps
mod Endings
mod Starts
mod Seen
