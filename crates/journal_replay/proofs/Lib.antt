mod Alike
mod Reading
mod Replaying
mod SavedText
mod States
pub mod ForCallers
