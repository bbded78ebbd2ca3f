mod Truths
mod CacheOrders
mod Reorders
mod Free
mod Lists
mod Spread
mod Gaps
mod Shortest
mod Needed
mod Once
mod Spills
mod Counted
mod Described
mod Agreeing
mod Planned
mod Rooms
mod Firsts
mod Uses
mod Turning
pub mod Crossing
pub mod ForCallers
