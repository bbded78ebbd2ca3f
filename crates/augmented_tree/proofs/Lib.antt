mod Order
mod WellOrdered
pub mod Crossing
pub mod ForCallers
