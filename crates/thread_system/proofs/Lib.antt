pub mod Answering
pub mod Carrying
pub mod Determined
pub mod Replaying
pub mod Through
