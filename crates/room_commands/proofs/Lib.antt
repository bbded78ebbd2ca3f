mod Placements
mod Orders
mod Getting
mod Planning
mod Growing
mod Counting
mod Restoring
mod Fetching
mod Faults
mod Rooms
mod Pulling
mod Creating
mod Asking
mod MemoryLast
mod Serving
pub mod ForCallers
