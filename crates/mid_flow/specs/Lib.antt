pub mod Emission
pub mod Flat
pub mod Laws
pub mod Standing
pub mod Structure
pub mod Values
pub mod Written
