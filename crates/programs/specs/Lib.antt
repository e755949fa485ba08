pub mod Bytes
pub mod Endings
pub mod Words
