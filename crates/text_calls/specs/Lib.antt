pub mod Strings
pub mod Outcomes
pub mod Rows
pub mod Answers
pub mod Carrying
