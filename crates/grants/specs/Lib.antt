pub mod Back
pub mod Table
pub mod Chains
pub mod Links
pub mod Private
