pub mod Plain
pub mod Looks
pub mod Rounds
pub mod Laws
pub mod Nodes
pub mod Tables
pub mod Searches
pub mod Points
