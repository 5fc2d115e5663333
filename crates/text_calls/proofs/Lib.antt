pub mod Cells
pub mod Moves
pub mod Fitting
pub mod Others
pub mod Used
