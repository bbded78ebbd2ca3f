mod Others
mod Carried
mod Going
mod Adding
mod Sending
mod Placed
mod Served
pub mod ForCallers
