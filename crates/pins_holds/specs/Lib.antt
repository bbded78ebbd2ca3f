pub mod Sessions
pub mod Pinned
