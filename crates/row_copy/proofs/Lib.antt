mod AwaitedSources
mod MarkedPlaces
pub mod ForCallers
