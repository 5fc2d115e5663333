pub mod Covers
pub mod Marks
