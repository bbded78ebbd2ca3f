mod Search
mod Lookups
mod AllKept
mod Keys
mod Admitted
mod Neighbours
mod Entering
pub mod ForCallers
