pub mod Roomy
pub mod Shapes
