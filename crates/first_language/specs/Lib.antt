pub mod Fronts
pub mod Grammar
pub mod Kept
pub mod Reading
pub mod Sound
pub mod Texts
pub mod Tokens
pub mod Tree
