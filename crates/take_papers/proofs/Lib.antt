pub mod Coming
pub mod Held
