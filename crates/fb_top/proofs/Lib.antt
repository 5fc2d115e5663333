pub mod Headline
pub mod Lowered
pub mod Source
