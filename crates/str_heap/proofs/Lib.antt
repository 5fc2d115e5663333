pub mod Runs
pub mod FirstRun
pub mod Arena
pub mod Counts
pub mod Keeping
pub mod FirstFit
pub mod Live
