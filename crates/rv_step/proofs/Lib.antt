pub mod Bytes
pub mod Pages
pub mod Plans
pub mod Programs
pub mod State
