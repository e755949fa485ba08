pub mod Form
pub mod Layout
pub mod Fits
pub mod View
pub mod Asked
pub mod Sides
