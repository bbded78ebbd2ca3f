pub mod EndedWorks
pub mod Handed
pub mod Notes
pub mod Granting
