pub mod Faults
pub mod Folders
pub mod Held
pub mod Turns
