pub mod Words
pub mod Steps
pub mod Variables
pub mod Simple
pub mod Cases
pub mod Heads
pub mod Members
