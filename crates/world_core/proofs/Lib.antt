mod AtPlace
mod Numbers
mod Logging
mod Numbering
mod Places
mod Stores
mod Clusters
mod Lines
mod Happenings
mod Entries
mod Stepping
mod Idling
mod Deliveries
mod HandedOver
mod Turning
mod Running
pub mod ForCallers
