pub mod Calls
pub mod Sessions
pub mod Serving
pub mod Hearing
pub mod Turns
