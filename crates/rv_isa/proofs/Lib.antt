pub mod Again
pub mod Ahead
pub mod Fields
pub mod Lines
pub mod Spelt
