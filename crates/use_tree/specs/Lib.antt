pub mod Classes
pub mod Uses
