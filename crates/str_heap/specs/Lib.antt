pub mod Blocks
pub mod Payloads
pub mod FirstFit
pub mod Sound
