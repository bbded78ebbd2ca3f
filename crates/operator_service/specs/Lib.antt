pub mod Attending
pub mod Counts
pub mod Looks
pub mod Servings
