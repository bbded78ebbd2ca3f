mod Received
mod Stepping
mod ByChecks
mod Passed
mod Changing
mod Telling
mod Described
mod Dropping
mod MoreThanRefused
mod Arriving
pub mod ForCallers
