pub mod Words
pub mod Reading
pub mod Types
pub mod Productions
pub mod Expr
pub mod Nests
pub mod Grammar
pub mod Faults
