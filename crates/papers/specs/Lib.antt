pub mod Refusals
pub mod Paper
pub mod Row
pub mod Reading
pub mod Telling
pub mod Laws
