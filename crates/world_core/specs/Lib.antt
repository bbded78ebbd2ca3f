pub mod Logs
pub mod WorldSteps
pub mod Runs
pub mod Worlds
pub mod Noting
pub mod MemoryLast
