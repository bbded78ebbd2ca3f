pub mod Parts
pub mod Ids
pub mod Refusals
pub mod Texts
pub mod Kinds
pub mod Works
