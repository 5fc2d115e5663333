pub mod Entries
pub mod Solo
