pub mod Beginning
pub mod Declares
pub mod Emitted
pub mod Simulation
pub mod Sound
pub mod SourceEnds
