pub mod Histories
pub mod Rules
pub mod Sending
