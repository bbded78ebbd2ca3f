pub mod Orders
pub mod Facts
pub mod Plans
pub mod Searches
pub mod Spilling
pub mod Leavings
pub mod Indexed
