pub mod Standing
pub mod Ending
pub mod Held
pub mod Moments
pub mod Telling
