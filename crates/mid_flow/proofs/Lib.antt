pub mod Constructs
pub mod Emitting
pub mod Heights
pub mod Lawful
pub mod Positions
pub mod Safety
pub mod Targets
