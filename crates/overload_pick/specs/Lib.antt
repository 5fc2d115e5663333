pub mod Best
pub mod Choice
pub mod Costs
pub mod Types
