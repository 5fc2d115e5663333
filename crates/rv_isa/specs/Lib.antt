pub mod Encoding
pub mod Machine
pub mod Progress
pub mod Words
