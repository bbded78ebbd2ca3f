pub mod Beside
pub mod RowUsage
pub mod Shown
pub mod Erased
pub mod Outcomes
pub mod MemoryLast
