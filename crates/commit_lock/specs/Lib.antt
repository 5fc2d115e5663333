pub mod Views
pub mod Steps
pub mod Rules
pub mod Props
pub mod Packs
pub mod Meanings
