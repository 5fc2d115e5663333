pub mod Access
pub mod Calls
pub mod Pages
pub mod Plan
pub mod Program
pub mod State
pub mod Step
