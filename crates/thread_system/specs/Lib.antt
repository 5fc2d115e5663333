pub mod Effect
pub mod LoneCalls
pub mod Memory
pub mod Printing
pub mod Replay
pub mod Segment
pub mod Simulation
