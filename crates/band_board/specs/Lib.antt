pub mod View
pub mod BoardRule
pub mod Steps
pub mod Seats
pub mod Answers
