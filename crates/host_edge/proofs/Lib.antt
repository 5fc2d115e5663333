pub mod Appending
pub mod Held
pub mod Rising
pub mod Taking
