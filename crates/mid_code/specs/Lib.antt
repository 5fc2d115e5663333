pub mod Covers
pub mod Flow
pub mod Operations
pub mod Paths
pub mod Registers
pub mod Step
