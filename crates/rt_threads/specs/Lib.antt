pub mod Lists
pub mod Linked
pub mod Table
pub mod Rows
pub mod Standing
pub mod Kept
pub mod Laws
