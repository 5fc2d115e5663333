pub mod Leads
pub mod Pointers
pub mod Same
pub mod Sums
