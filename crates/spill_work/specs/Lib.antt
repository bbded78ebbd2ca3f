pub mod Line
pub mod Turns
pub mod Numbers
