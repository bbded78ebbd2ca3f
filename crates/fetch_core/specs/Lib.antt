pub mod Fetching
pub mod Stages
pub mod Stores
