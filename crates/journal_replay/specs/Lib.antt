pub mod Inputs
pub mod Journals
pub mod Progress
pub mod Replays
pub mod Saved
pub mod States
pub mod Texts
