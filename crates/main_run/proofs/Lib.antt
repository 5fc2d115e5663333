pub mod Lines
pub mod Segments
pub mod Runs
