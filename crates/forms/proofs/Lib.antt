pub mod Every
pub mod Chunks
pub mod Offsets
pub mod Parts
pub mod Fitting
pub mod Same
pub mod Proper
pub mod Views
