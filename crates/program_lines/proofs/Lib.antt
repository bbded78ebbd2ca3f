mod Asking
mod Ordering
mod TakenLines
mod NextLines
pub mod ForCallers
