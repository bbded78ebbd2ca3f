pub mod Endings
pub mod Orders
pub mod ControlLines
pub mod FailedCalls
pub mod TakenLines
