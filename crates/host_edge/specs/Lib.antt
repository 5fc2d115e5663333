pub mod Faults
pub mod Files
pub mod Loads
pub mod Memory
pub mod Plan
pub mod Streams
pub mod Within
