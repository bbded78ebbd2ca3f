pub mod Prefixes
pub mod Printing
pub mod Fields
pub mod Words
pub mod Reading
pub mod Lines
