pub mod Place
pub mod Memory
pub mod Calls
pub mod Standing
pub mod Kept
pub mod Table
pub mod Answers
