pub mod Lowering
pub mod Meaning
pub mod Promise
pub mod Relation
pub mod Variables
