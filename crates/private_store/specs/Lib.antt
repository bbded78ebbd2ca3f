pub mod rules
pub mod laws
