pub mod Blocks
pub mod Nests
pub mod Procedures
pub mod Module
pub mod Phrases
pub mod Statements
pub mod Texts
pub mod Faults
