mod Parts
mod Gone
pub mod Crossing
pub mod ForCallers
