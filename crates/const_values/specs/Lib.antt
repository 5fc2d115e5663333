pub mod Faults
pub mod Operators
pub mod Values
