pub mod Residents
