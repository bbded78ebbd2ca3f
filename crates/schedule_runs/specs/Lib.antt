pub mod Lines
pub mod Runs
pub mod SavedRuns
pub mod Workers
pub mod CommandLine
