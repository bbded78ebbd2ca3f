pub mod Ends
pub mod Rule
