pub mod Sums
pub mod Begins
pub mod Taking
pub mod Pages
